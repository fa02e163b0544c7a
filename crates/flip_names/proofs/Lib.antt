pub mod Images
pub mod Flips
pub mod Faces
pub mod Back
pub mod Boundaries
pub mod Replays
pub mod FirstIllegals
pub mod Staying
