pub mod Ends
pub mod Histories
pub mod Obstructed
mod Searched
pub mod Laws
