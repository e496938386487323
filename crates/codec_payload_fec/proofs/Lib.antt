mod BitStringLemmas
mod FecGrammar
mod FecWriting
mod GroupLemmas
mod MadeLemmas
pub mod ProtectLemmas
mod PutLemmas
mod RebuildLemmas
mod StoreLemmas
mod SumLemmas
pub mod XorLemmas
mod WholeSums
pub mod WriterLemmas
mod XorTotals
