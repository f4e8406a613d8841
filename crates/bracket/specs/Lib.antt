pub mod Statuses
pub mod States
pub mod Changes
pub mod Steps
pub mod Logs
pub mod Brackets
