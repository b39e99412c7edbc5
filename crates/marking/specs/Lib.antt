pub mod asks
pub mod ListBetween
pub mod Listing
pub mod Mark
pub mod MarkBetween
