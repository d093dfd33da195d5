pub mod Receivers
pub mod Hearing
pub mod Bytes
