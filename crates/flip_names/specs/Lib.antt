-- Flips under another naming of the labels.
pub mod Names
pub mod Laws
