pub mod Causes
pub mod Judges
pub mod Extending
