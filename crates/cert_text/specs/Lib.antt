-- The text of certificates.
pub mod Statements
pub mod Readings
pub mod Lines
pub mod Grammar
pub mod Writing
