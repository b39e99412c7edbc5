pub mod asks
pub mod HandIn
pub mod State
pub mod Turn
