pub mod Sites
pub mod Looking
pub mod Causes
pub mod Names
