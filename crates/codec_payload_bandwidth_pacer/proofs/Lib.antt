mod ApartLemmas
mod BytesLemmas
mod DueLemmas
pub mod RunLemmas
pub mod ShareLemmas
