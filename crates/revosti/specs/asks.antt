pub mod Desk
pub mod Mark
pub mod Receipt
