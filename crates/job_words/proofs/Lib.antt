pub mod Options
mod FromRules
mod OptionLaws
mod Reading
mod Refusals
mod Defaults
mod Asked
