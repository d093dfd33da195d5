pub mod ModuleRuns
pub mod Reaches
pub mod Units
pub mod Quick
