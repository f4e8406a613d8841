pub mod Store
pub mod BetterCovers
