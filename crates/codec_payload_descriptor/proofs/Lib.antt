pub mod ResultLemmas
pub mod StructureLemmas
