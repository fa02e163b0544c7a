-- Searches of links with the workers of rounds.
pub mod Counts
