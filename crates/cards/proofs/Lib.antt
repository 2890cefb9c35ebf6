pub mod Cards
pub mod Shown
