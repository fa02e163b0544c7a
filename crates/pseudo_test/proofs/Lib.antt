pub mod Subsets
pub mod Incident
pub mod Counted
pub mod Spreading
