-- What a search for a sphere owes.
pub mod Searches
pub mod Laws
