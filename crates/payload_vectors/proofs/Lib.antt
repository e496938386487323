pub mod DistanceLemmas
pub mod LineLemmas
