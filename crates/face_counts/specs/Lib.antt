-- The numbers of faces, and the Euler characteristic.
pub mod Faces
pub mod Eulers
pub mod Laws
