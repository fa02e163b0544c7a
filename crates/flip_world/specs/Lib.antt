-- What a world keeps beside the core, and what is looked for among labels.
pub mod Drafts
pub mod Worlds
pub mod Labels
