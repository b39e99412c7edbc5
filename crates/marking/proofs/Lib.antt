pub mod BetweenLists
pub mod BetweenSheets
pub mod ListingAnswers
pub mod MarkingSheets
pub mod PackedSheets
