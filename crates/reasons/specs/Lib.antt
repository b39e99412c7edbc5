pub mod asks
pub mod PairReason
pub mod Telling
pub mod Tells
