pub mod PacketBytes
