pub mod asks
