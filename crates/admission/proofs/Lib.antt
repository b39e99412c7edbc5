pub mod Deciding
pub mod Passed
pub mod TestWays
