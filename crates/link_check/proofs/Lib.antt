pub mod Flagged
pub mod Linked
pub mod Judged
pub mod Vertices
pub mod LinkSearching
