pub mod Branches
pub mod Scores
pub mod Multiples
pub mod Loads
pub mod LowerBounds
pub mod Narrowing
pub mod BranchAndBound
