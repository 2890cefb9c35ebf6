pub mod Reply
pub mod Question
pub mod Replies
pub mod Expanding
