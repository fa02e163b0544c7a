-- What the job `sphere` answers.
pub mod Texts
pub mod Decisions
pub mod Answers
pub mod Laws
