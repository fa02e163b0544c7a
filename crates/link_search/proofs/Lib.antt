mod Counting
mod Labels
mod Telling
mod Walking
