pub mod Codes
pub mod Messages
pub mod Words
