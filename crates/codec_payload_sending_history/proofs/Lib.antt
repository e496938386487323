pub mod HeldLemmas
pub mod HistoryLemmas
pub mod RequestLemmas
pub mod OriginalLemmas
