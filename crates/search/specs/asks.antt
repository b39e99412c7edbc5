pub mod Candidates
pub mod Pairs
pub mod Split
