pub mod Keyframes
pub mod References
pub mod UnitGates
pub mod Vp8Layers
