pub mod AllPages
pub mod asks
pub mod PageLine
pub mod Page
pub mod PageOf
pub mod Reading
pub mod Writing
