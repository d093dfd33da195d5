pub mod CodeLaws
pub mod CommandLaws
pub mod ReaderLaws
pub mod AnswerLaws
pub mod TurnedLaws
pub mod Theorems
pub mod UnitBits
