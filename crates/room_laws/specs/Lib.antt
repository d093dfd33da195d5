pub mod Statements
pub mod Demand2
pub mod Slices
pub mod Press
pub mod Lit
pub mod Groups
