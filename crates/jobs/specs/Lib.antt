pub mod Answers
pub mod Copies
pub mod Jobs
pub mod Plans
pub mod Plays
