-- The numbers of a search by simulated annealing, its words and places, and what a try proposes.
pub mod Numbers
pub mod Limits
pub mod Words
pub mod Places
pub mod Proposals
pub mod Faces
pub mod Listed
pub mod Growth
pub mod Nearest
pub mod Paging
pub mod Fits
pub mod Turns
