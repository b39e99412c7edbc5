pub mod Edges
pub mod Saved
