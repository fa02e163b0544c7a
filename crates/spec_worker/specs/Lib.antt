-- Workers and their tries.
pub mod Workers
pub mod Trying
pub mod Hearing
