pub mod Found
pub mod Answers
pub mod Lifted
pub mod Joins
pub mod Extensions
pub mod Premises
