pub mod Turns
pub mod Seats
pub mod Books
pub mod Flags
pub mod Ends
