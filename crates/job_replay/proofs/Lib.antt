mod Replays
pub mod Laws
