pub mod FormLaws
pub mod ListLaws
pub mod PacketLaws
pub mod Theorems
pub mod Alone
