-- What a worker holds of a board, and what it remembers of it.
pub mod Holding
-- What a gate hears of the tries of its worker.
pub mod Gates
