pub mod TableLaws
pub mod StillLaws
pub mod HouseLaws
pub mod Runs
pub mod QuickLaws
