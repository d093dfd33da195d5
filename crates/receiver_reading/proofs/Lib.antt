pub mod Words
pub mod Histories
pub mod Starts
pub mod Answers
pub mod States
pub mod Standing
pub mod ReadingWhole
pub mod Reachable
