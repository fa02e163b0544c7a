pub mod Command
pub mod Reads
pub mod Names
pub mod Jobs
