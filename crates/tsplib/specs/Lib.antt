pub mod asks
pub mod Gathering
pub mod Judging
pub mod Language
pub mod Reading
pub mod State
pub mod FaultLine
