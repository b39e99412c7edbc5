pub mod asks
pub mod Pair
pub mod Pairs
pub mod PairTest
