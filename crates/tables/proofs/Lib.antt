pub mod Parts
pub mod Bringing
pub mod Naming
pub mod Filling
