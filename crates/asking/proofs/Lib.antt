-- What the code rests on
pub mod Levels
pub mod Causes
pub mod Serving
pub mod Stepping
pub mod Walking
-- The table that the walk does without
pub mod Noting
-- The rules' answer
pub mod Judging
pub mod Replies
