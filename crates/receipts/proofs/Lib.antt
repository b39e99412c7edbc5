pub mod Receipts
pub mod ViewAnswers
pub mod Views
