pub mod Every
pub mod LegLoops
pub mod LegsAndBound
pub mod PairLists
pub mod PairTests
pub mod SavingNames
pub mod Savings
pub mod Unmoving
