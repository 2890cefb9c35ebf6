pub mod Writing
pub mod Spelling
pub mod Lines
pub mod Listed
