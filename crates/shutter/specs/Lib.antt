pub mod Shutters
pub mod Statements
