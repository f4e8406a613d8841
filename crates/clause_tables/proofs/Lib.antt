pub mod Pushed
pub mod Breaking
pub mod Meeting
pub mod Proper
