pub mod Substituting
pub mod Payloads
pub mod Steps
