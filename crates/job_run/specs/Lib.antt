-- What the top call answers.
pub mod Usage
pub mod Jobs
pub mod Answers
