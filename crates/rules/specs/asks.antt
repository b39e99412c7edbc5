pub mod Bound
pub mod Legs
pub mod Pairs
pub mod SplitLegs
