pub mod Reply
pub mod Settles
pub mod Turned
