-- What the job `drill` answers.
pub mod Texts
pub mod Answers
pub mod Laws
