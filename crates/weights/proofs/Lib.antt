pub mod CostLaws
pub mod SumLaws
pub mod TotalLaws
