pub mod Rowing
pub mod Going
pub mod Telling
