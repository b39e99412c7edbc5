pub mod Bounds
pub mod Fronts
pub mod Headers
pub mod Measurings
pub mod Reports
pub mod Sheets
pub mod Striking
