pub mod Reducing
pub mod Falling
pub mod Candidates
pub mod DescentRuns
pub mod Edges
pub mod Cycles
