-- Searches for flips that lead one complex to another.
pub mod Comparing
pub mod Pairs
