pub mod Shifting
pub mod Pieces
pub mod Entering
pub mod CallPlaces
pub mod Calls
