pub mod DeskAnswers
pub mod ReadAnswers
pub mod ReceiptAnswers
pub mod ReceiptNumbers
pub mod RefusalNumbers
