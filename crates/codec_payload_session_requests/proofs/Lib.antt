pub mod IdleLemmas
mod NamedLemmas
