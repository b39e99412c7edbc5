pub mod Listing
pub mod Mark
