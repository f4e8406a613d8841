pub mod Meanings
pub mod Covers
pub mod Refused
