pub mod LineLaws
pub mod TraceLaws
pub mod RunLaws
