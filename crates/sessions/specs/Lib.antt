pub mod Calls
pub mod Faults
pub mod Instructions
pub mod Outputs
pub mod Playing
pub mod Printing
pub mod Session
