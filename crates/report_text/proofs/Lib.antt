pub mod Places
pub mod Fits
pub mod Chains
pub mod Searches
pub mod Shown
pub mod Lengths
