mod Answering
pub mod Laws
