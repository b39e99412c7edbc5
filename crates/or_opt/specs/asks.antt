pub mod Ends
pub mod DegreeTwo
