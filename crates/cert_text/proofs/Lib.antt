pub mod Parts
pub mod PairLaws
pub mod Again
