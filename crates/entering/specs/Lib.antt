pub mod Itself
pub mod Numbering
pub mod Written
pub mod Implied
pub mod Substitutes
pub mod Shared
pub mod Replaced
pub mod Shows
