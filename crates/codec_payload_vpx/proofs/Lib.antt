pub mod ReadingLemmas
pub mod SuperframeGrammar
pub mod SuperframeLemmas
pub mod Vp8Grammar
