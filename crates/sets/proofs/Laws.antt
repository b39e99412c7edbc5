-- General laws of the crate: stored edges, what an edge list has, neighbours, points of a list, cycles, condition 2
-- with a pair added, and the path that the cycle test follows. Each file assumes nothing.
pub mod Stored
pub mod Beyond
pub mod Joined
pub mod Neighbours
pub mod Points
pub mod Cycle
pub mod Trail
pub mod Degree
pub mod Walk
pub mod Follow
