pub mod Held
pub mod Reports
pub mod Asks
