-- Lemmas on rounds and searches.
pub mod Halves
pub mod Newcomers
pub mod Settling
pub mod Ran
pub mod Rises
pub mod Closing
pub mod Histories
pub mod Chains
pub mod Counts
pub mod Names
pub mod Searching
