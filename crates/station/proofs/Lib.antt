pub mod HalfAt
pub mod SendLaws
pub mod StateLaws
pub mod TurnLaws
pub mod SlotLaws
pub mod Loops
pub mod BenchCases
pub mod Lowest
