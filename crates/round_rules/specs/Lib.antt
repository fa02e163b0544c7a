-- What a try and a round may answer.
pub mod Tasks
pub mod Rows
pub mod Own
pub mod Accounts
pub mod Outcomes
pub mod Rounds
pub mod Laws
