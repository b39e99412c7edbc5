pub mod asks
pub mod Tour
