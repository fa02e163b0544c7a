mod Describing
pub mod Laws
