pub mod Calls
pub mod BenchRuns
