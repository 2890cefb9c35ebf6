pub mod World
pub mod Tables
pub mod Forms
pub mod Rows
