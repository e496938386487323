pub mod ClearedLemmas
pub mod FirstLemmas
pub mod PassingLemmas
pub mod PlainLemmas
pub mod PortLemmas
pub mod SoundPorts
