-- Signs of facets.
pub mod Signs
pub mod Walks
pub mod Spreads
pub mod Answers
