pub mod ClosingExact
pub mod ClosingTests
pub mod SavingNames
pub mod Savings
