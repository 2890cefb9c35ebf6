pub mod Told
pub mod Alike
pub mod Shaped
pub mod Highest
pub mod Taking
pub mod Made
