pub mod Cutting
pub mod Decimal
pub mod Ends
pub mod Levels
pub mod Literals
pub mod WeightTexts
