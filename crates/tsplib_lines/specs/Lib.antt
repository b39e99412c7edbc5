pub mod asks
pub mod TextLine
pub mod Numbers
pub mod Words
