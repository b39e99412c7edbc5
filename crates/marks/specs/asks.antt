pub mod Converting
pub mod Counting
pub mod Fresh
pub mod Mark
pub mod Packed
pub mod Pending
