-- What the job `equiv` answers.
pub mod Texts
pub mod Answers
pub mod Laws
