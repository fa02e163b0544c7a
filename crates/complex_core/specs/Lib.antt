-- Faces and complexes as rising lists.
pub mod Rising
pub mod Labels
pub mod FaceFaults
pub mod Padding
pub mod Packed
pub mod Packing
pub mod Complexes
pub mod ComplexFaults
pub mod Maps
pub mod MapFaults
pub mod Links
pub mod Subsets
