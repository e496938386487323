pub mod AgreementLemmas
pub mod FittingLemmas
pub mod GapLemmas
pub mod OwnLemmas
pub mod RangeLemmas
pub mod RunLemmas
