-- Maps from one complex to another.
pub mod Isomorphisms
pub mod IsoFaults
pub mod Degrees
pub mod Walks
pub mod Trials
pub mod Searches
pub mod Laws
