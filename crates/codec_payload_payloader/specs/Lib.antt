pub mod OwnSending
pub mod Packets
pub mod RedPackets
pub mod Sending
