pub mod Keeping
pub mod HereCases
pub mod HereSteps
pub mod InsideCases
pub mod InsideSteps
pub mod InsideParts
pub mod InsideWhole
