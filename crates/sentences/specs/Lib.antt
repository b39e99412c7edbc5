pub mod asks
pub mod Reason
pub mod Sentence
pub mod Small
