-- What jobs that make searches have in common: their first lines, and how they end.
pub mod Lines
pub mod Ends
