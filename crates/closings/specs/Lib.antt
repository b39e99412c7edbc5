pub mod asks
pub mod Closing
pub mod ClosingTest
