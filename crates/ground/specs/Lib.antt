pub mod Choice
pub mod Text
pub mod Refusals
pub mod Records
