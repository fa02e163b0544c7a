-- Descent by flips of an index above d/2.
pub mod Descents
pub mod Laws
