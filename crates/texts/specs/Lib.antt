pub mod Cuts
pub mod Faults
pub mod Lines
pub mod Numbers
pub mod Pieces
pub mod WeightForms
