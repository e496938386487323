pub mod FecLemmas
pub mod FrameLemmas
pub mod NumberLemmas
pub mod PushLemmas
pub mod RedLemmas
pub mod SizeLemmas
pub mod TakenLemmas
