-- Bistellar flips of complexes.
pub mod Flips
pub mod Boundaries
pub mod Certificates
pub mod Entries
pub mod Journals
pub mod Exchanges
pub mod Laws
