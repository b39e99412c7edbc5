pub mod Distance
pub mod Edge
pub mod Measure
pub mod Rows
pub mod Sums
pub mod Table
