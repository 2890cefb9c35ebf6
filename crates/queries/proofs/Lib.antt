pub mod SameCards
pub mod Picking
pub mod Showing
pub mod Asking
pub mod Extending
