pub mod asks
pub mod Header
pub mod Lines
pub mod Report
