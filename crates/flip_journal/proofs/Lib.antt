pub mod Labels
pub mod Gaps
pub mod Naming
pub mod Kept
pub mod Carrying
pub mod Leading
