pub mod TokenLaws
pub mod LineLaws
pub mod ReadLaws
pub mod Joined
pub mod Again
pub mod LabelSets
pub mod SpelledIsRead
pub mod ReadIsSpelled
