pub mod Store
pub mod Updates
