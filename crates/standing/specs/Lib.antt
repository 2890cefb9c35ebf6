pub mod Shown
pub mod Chained
pub mod Standing
pub mod Grows
