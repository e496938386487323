pub mod AnswerLemmas
pub mod CaseLemmas
pub mod CodecLemmas
pub mod StepLemmas
