pub mod asks
pub mod Segment
pub mod SegmentTest
