pub mod EndMoves
pub mod PointLegs
