pub mod FlipStars
pub mod ReplayStars
