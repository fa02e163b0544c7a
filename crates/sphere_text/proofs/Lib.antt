pub mod Grounds
pub mod Fits
pub mod Shown
pub mod Cycles
pub mod ReadAgain
pub mod Lengths
