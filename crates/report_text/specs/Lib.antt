-- What the report of a search shows of its complex.
pub mod Shown
pub mod Laws
