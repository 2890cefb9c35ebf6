-- Reading a text in its world is reading its template
pub mod Fit
pub mod Uses
pub mod SameNames
pub mod Reading
pub mod Tables
-- Definitions lawfully added
pub mod Places
pub mod Runs
pub mod Ordered
pub mod Settled
pub mod InWorld
pub mod Starts
-- The states of the rules
pub mod Invariant
pub mod Resolved
pub mod Modules
pub mod Fields
pub mod Declared
pub mod Origin
pub mod Depth
pub mod Region
pub mod Steps
-- What follows for files
pub mod File
pub mod Order
pub mod Forms
pub mod Readings
pub mod Example
