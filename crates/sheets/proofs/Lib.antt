pub mod Looking
pub mod Records
pub mod Refusals
pub mod Visiting
pub mod Walking
