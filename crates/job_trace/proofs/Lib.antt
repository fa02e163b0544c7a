mod RunTurns
mod RunNames
mod RunKept
mod RunEnd
pub mod Inputs
pub mod Laws
