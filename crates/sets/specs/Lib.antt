pub mod asks
pub mod EdgeSet
pub mod Joined
pub mod Neighbours
pub mod Rising
pub mod Shape
