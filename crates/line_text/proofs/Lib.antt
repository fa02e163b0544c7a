pub mod LineLaws
pub mod NumberLaws
pub mod FlipLaws
pub mod Joined
pub mod Again
