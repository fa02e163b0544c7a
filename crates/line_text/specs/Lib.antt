-- Lines of numbers, and of flips.
pub mod Numbers
pub mod Labels
pub mod Flips
pub mod Writing
