mod KeyframeLemmas
pub mod MomentLemmas
pub mod NackLemmas
mod NackRunLemmas
mod SampleLemmas
mod MedianLemmas
