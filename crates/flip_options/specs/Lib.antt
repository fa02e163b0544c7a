-- Candidates for a descent, kept up to date flip by flip.
pub mod Candidates
pub mod Changes
pub mod OptionViews
pub mod DescentViews
