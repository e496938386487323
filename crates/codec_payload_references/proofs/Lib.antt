mod FrameLemmas
mod LayerLemmas
mod NoteLemmas
mod SetLemmas
mod UnitLemmas
