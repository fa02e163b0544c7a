-- The core of claims, flips, rollbacks and commits.
pub mod Cores
pub mod Steps
pub mod Serials
pub mod Runs
