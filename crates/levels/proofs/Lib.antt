pub mod Counted
pub mod Low
pub mod Heads
pub mod Numbered
pub mod Walking
