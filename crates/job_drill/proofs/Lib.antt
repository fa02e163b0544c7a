mod Drilled
pub mod Laws
