-- A board that threads share, by claims of single places.
pub mod Marks
pub mod MarkLists
pub mod Held
pub mod Laid
pub mod Passes
pub mod Ended
