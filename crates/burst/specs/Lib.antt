pub mod Frames
pub mod Writer
