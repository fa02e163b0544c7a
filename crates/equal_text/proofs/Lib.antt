pub mod ReadAgain
pub mod Lengths
pub mod Small
pub mod Fits
