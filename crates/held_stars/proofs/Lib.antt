pub mod LentStars
pub mod MadeFlips
pub mod GivenUp
pub mod Claims
pub mod Gates
pub mod InOrder
