-- Words about files, fields, queries and cards that the demands and the theorems are stated in.
pub mod Lawful
pub mod Refused
pub mod LawfulInstances
pub mod Cause15
pub mod Queries
pub mod Cards
pub mod Bodies
pub mod Modules
