pub mod Order
pub mod Reorder
pub mod Segment
