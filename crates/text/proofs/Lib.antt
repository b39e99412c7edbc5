pub mod Decimals
pub mod DecimalsApart
pub mod Padding
pub mod SameTexts
pub mod Values
pub mod Writing
