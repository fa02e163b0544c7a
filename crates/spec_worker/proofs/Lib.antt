-- Lemmas on workers and their tries.
pub mod Within
pub mod Turns
pub mod Series
pub mod ConcludedTries
pub mod BegunTries
pub mod WholeRuns
pub mod CountedTries
pub mod Hearing
