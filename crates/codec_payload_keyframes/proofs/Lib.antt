pub mod GateLemmas
pub mod LayerLemmas
pub mod ReferenceLemmas
