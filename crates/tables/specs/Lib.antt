pub mod Names
pub mod Brought
pub mod Tables
pub mod Serves
