pub mod Meanings
pub mod Refused
pub mod Questions
