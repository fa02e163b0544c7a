pub mod Chains
pub mod Neighbours
pub mod Trees
pub mod Reaching
pub mod Orienting
