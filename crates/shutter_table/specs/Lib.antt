pub mod ShutterTable
pub mod ShutterRuns
pub mod Covers
pub mod Kept
pub mod Eights
pub mod Statements
