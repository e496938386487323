pub mod EntryLemmas
pub mod FromLemmas
pub mod HalvedLemmas
pub mod LevelLemmas
