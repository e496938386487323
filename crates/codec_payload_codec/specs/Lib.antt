pub mod BaseLayers
pub mod Depacketizers
pub mod Packetizers
