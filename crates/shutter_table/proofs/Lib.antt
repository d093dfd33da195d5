pub mod TableLaws
pub mod CoverLaws
pub mod Runs
