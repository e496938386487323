pub mod ReaderLemmas
pub mod RepeatLemmas
pub mod SyntaxLemmas
