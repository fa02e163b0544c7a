mod Searched
mod Certified
mod Differing
mod Fixed
pub mod Laws
