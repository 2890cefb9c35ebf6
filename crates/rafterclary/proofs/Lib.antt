pub mod Packing
pub mod PackingExpansion
