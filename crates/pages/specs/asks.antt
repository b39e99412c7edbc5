pub mod PageLine
pub mod Page
pub mod Reading
pub mod Writing
