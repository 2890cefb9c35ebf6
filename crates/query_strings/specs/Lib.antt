pub mod Reads
pub mod Read
