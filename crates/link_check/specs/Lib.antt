-- Links of faces, and which of them are bad.
pub mod Flags
pub mod BadLinks
pub mod Sizes
pub mod Laws
pub mod Vertices
pub mod LinkSearches
