mod Limits
mod Lists
mod OpenLinks
mod ReadAgain
mod Searched
pub mod Laws
