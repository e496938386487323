pub mod HexFieldLemmas
pub mod Limits
