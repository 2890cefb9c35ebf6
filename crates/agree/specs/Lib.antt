pub mod Trees
pub mod Parts
pub mod Folds
pub mod Levels
pub mod Limits
