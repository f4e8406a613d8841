pub mod Costs
pub mod Kinds
pub mod Levelled
pub mod Plainly
