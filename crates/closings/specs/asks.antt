pub mod ClosingTest
