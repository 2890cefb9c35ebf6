pub mod Labels
pub mod Forms
pub mod Cards
