pub mod Meanings
pub mod Describing
