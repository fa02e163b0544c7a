-- Rounds of workers, and searches.
pub mod Gates
pub mod Reports
pub mod Found
pub mod Crews
pub mod Searches
