pub mod Opposites
pub mod Computed
pub mod Triangle
