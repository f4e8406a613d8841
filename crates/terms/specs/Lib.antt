pub mod Clauses
pub mod Earliest
pub mod Masks
pub mod Refusals
pub mod Sets
