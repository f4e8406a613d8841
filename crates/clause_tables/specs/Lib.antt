pub mod Filled
pub mod Room
pub mod Entries
pub mod Table
pub mod Tables
pub mod Wanted
