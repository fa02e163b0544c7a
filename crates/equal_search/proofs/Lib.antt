-- Lemmas on two searches side by side.
pub mod Told
pub mod Seeking
pub mod Joining
pub mod Counts
pub mod Finding
