pub mod Fronts
pub mod Refusals
