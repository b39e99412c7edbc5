pub mod AllRows
pub mod AtEnd
pub mod Choice
pub mod Rows
pub mod Writing
