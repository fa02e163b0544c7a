-- What legal flips keep, and what that rules out.
pub mod Keeping
pub mod Obstacles
pub mod Differences
