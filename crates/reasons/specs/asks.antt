pub mod LineText
pub mod PairReason
pub mod Telling
