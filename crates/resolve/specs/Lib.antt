pub mod Look
pub mod Walk
pub mod Meaning
