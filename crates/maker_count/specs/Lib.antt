pub mod CountThrough
