pub mod Looking
pub mod Walking
pub mod Meaning
pub mod Resolving
pub mod Numbers
pub mod Law
