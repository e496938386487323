pub mod Counting
pub mod Endings
pub mod Lives
pub mod SessionRuns
pub mod Tightness
