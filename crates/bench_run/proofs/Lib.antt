pub mod LoadLaws
pub mod CallLaws
pub mod RunLaws
