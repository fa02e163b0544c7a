pub mod Drafts
pub mod Labels
pub mod Parts
