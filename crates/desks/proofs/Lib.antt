pub mod DeskExamples
pub mod DeskNumbers
pub mod HandInAnswers
pub mod RoundRobin
pub mod States
pub mod TurnAnswers
pub mod TurnLeaves
