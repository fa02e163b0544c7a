-- What the job `make` answers.
pub mod Recipes
pub mod Answers
pub mod Laws
