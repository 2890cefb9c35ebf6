pub mod Kept
pub mod Skims
