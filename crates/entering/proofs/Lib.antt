pub mod Standing
pub mod Entering
pub mod Finding
pub mod Implying
pub mod Substituting
pub mod Copied
pub mod Copying
-- What the tables show of the world
pub mod Saying
pub mod Outset
pub mod Joining
