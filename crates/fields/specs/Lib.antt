pub mod Substitution
pub mod Payload
pub mod Cursor
