pub mod Decides
pub mod EdgeSpans
pub mod SavedAnswers
pub mod SavedNames
