pub mod FreeSets
pub mod Found
pub mod Statuses
pub mod Charges
pub mod Sound
pub mod Bracket
