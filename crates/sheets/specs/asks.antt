pub mod Sheet
pub mod Visits
pub mod Walk
