pub mod SearchLemmas
pub mod TierLemmas
