pub mod Assignments
pub mod CountThrough
