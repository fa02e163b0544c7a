pub mod Kinds
pub mod Named
pub mod Words
pub mod Draws
pub mod Laws
pub mod Choices
