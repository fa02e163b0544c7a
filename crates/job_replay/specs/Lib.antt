-- What the job `replay` answers.
pub mod Texts
pub mod Readings
pub mod Answers
pub mod Laws
