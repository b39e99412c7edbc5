pub mod Receipt
pub mod View
