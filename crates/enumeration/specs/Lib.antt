pub mod asks
pub mod Find
