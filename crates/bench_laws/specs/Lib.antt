pub mod Demand3
pub mod Slots
pub mod Bound
pub mod Together
pub mod ExportedRun
pub mod RunInBytes
