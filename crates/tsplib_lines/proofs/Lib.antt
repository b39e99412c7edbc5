pub mod LineReading
pub mod LinesExact
pub mod NumberSweep
pub mod NumbersExact
pub mod SoleWords
pub mod WordsExact
