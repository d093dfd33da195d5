pub mod Whole
pub mod Inversion
pub mod Waitings
