pub mod Places
pub mod Naming
pub mod Knowing
pub mod Chain
pub mod Copies
pub mod Linking
pub mod Along
pub mod Bringing
