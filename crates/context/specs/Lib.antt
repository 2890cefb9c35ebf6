pub mod Parts
pub mod Entries
pub mod Lookup
pub mod Joining
pub mod Holds
