pub mod Choices
pub mod Lists
pub mod Causes
pub mod Records
pub mod Passed
