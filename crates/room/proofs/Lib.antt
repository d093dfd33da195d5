pub mod ApplyLaws
pub mod Levels
pub mod RadioLaws
pub mod SecondBytes
pub mod MainsLaws
