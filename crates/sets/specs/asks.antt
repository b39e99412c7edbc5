pub mod Beyond
pub mod Shape
pub mod Stored
