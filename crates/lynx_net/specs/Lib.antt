pub mod Payloads
pub mod Lists
pub mod Packets
pub mod Statements
