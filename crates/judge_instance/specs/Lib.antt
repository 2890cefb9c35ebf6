pub mod Cleared
pub mod Constancy
pub mod Levels
pub mod Brought
