pub mod CoreLaws
pub mod MakerLaws
pub mod CoverLaws
