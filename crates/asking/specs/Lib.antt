pub mod Asks
pub mod Walk
