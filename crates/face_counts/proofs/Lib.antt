pub mod Parts
pub mod Numbers
pub mod Sizes
pub mod Sums
