pub mod Keeping
pub mod Judged
