mod Telling
pub mod Laws
