pub mod Course
pub mod Step
pub mod Here
pub mod Inside
