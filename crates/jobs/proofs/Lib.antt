pub mod Calls
pub mod Rounds
