pub mod Messages
pub mod Packed
