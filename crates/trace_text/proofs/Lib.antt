pub mod Parts
pub mod Sides
pub mod Events
pub mod Whole
