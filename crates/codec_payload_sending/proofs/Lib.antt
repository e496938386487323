pub mod LentLemmas
pub mod OwnLemmas
pub mod SenderLemmas
