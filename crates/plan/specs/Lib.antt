pub mod Motions
pub mod Plans
pub mod Statements
