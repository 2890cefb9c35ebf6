pub mod Tallies
pub mod Cuts
pub mod Arguments
pub mod Walks
pub mod Rows
pub mod Passing
pub mod Noting
pub mod Ending
