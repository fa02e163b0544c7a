-- Ridges, and chains of facets.
pub mod Ridges
pub mod Chains
pub mod Incidences
pub mod Spreads
