-- The rule of a board that threads share, and what each step of it tells.
pub mod Books
pub mod Homes
pub mod Items
pub mod Tries
pub mod Views
pub mod Rule
pub mod Plays
pub mod Ends
pub mod Steps
