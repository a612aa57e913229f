pub mod Edges
pub mod Masks
