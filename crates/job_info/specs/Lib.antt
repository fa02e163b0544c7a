-- What the job `info` answers.
pub mod Descriptions
pub mod Answers
pub mod Laws
