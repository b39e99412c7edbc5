pub mod asks
pub mod Rules
pub mod Sheet
pub mod Verdict
