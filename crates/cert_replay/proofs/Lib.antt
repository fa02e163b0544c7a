pub mod RowOrder
pub mod RowSteps
pub mod RowSets
pub mod Runs
pub mod OneAnswer
pub mod VertexLists
