-- Lists of flips.
pub mod Carried
pub mod Laws
