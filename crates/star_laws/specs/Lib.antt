-- What flips do to the stars of labels.
pub mod Stars
pub mod Laws
