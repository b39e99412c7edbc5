pub mod asks
pub mod Tested
pub mod Tests
