pub mod Rewritten
pub mod Ends
pub mod Going
pub mod Filling
