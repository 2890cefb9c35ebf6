pub mod Shift
pub mod Part
