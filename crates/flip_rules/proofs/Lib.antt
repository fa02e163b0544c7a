pub mod Links
pub mod Legal
pub mod Back
pub mod Edges
pub mod Near
pub mod Replays
pub mod Exchanges
pub mod Journals
