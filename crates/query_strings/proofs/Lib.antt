pub mod Skimming
pub mod Reading
