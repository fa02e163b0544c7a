pub mod Replays
pub mod Rows
pub mod Runs
pub mod Growth
pub mod OneStep
