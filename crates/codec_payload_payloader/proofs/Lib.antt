pub mod OwnSendLemmas
pub mod SendLemmas
