pub mod BranchLaws
pub mod BestLaws
pub mod LoadLaws
pub mod SetLaws
pub mod Raising
pub mod Multiplying
pub mod GreedyLaws
pub mod Thinning
