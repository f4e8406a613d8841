pub mod Clauses
pub mod HandedUp
pub mod Instructing
pub mod Opening
pub mod Performing
pub mod Played
pub mod Rounds
