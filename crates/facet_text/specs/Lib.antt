-- The text of a complex, and the words of lines.
pub mod Tokens
pub mod Lines
pub mod Grammar
pub mod Writing
pub mod Spelling
