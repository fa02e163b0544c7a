-- What the job `iso` answers.
pub mod Answers
pub mod Laws
