pub mod HeldLemmas
pub mod LateLemmas
pub mod OwnLemmas
pub mod SoundLemmas
