-- What the job `manifold` answers.
pub mod Texts
pub mod Answers
pub mod Laws
