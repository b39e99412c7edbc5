pub mod asks
pub mod Converting
pub mod Degree
pub mod Fresh
pub mod Mark
pub mod Packed
pub mod Pending
