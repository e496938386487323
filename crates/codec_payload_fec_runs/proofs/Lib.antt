pub mod MissingLemmas
pub mod RunLemmas
