pub mod FrameLaws
pub mod Writing
