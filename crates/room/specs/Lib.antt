pub mod Rooms
pub mod Routes
pub mod Mains
pub mod Lent
pub mod Statements
