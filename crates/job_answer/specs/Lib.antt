-- What the answers of all jobs have.
pub mod Statuses
pub mod Faults
pub mod Alone
pub mod Lines
pub mod Meanings
