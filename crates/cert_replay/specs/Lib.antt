-- What certificates come to.
pub mod Rows
pub mod Outcomes
pub mod Answers
