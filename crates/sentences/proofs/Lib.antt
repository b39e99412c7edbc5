pub mod Apart
pub mod Examples
pub mod Fits
pub mod Letters
pub mod Sizes
pub mod Variants
