pub mod asks
pub mod Columns
pub mod Decimal
pub mod Words
