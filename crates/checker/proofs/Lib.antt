pub mod Outset
pub mod Answers
pub mod Steps
pub mod Turns
pub mod Replies
pub mod Rounds
