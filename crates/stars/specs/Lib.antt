-- Stars of the vertices of a complex, and what flips do to them.
pub mod StarViews
pub mod FlipsHere
pub mod Changes
pub mod Building
pub mod Candidates
pub mod CandidateLists
