pub mod Bits
pub mod Seen
pub mod Step
pub mod Found
pub mod Bounding
pub mod Standing
pub mod Cases
