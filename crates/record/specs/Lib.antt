pub mod Layout
pub mod ModuleTable
pub mod Parts
pub mod Statements
