pub mod Tasks
pub mod Starting
pub mod Running
pub mod Rounding
