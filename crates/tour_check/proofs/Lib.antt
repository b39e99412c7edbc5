pub mod TourAnswers
pub mod TourCounts
pub mod TourExact
pub mod TourLoops
pub mod TourSeen
