-- Runs with RED. The proofs of the functions of the module `red` are in the folder `red`.
pub mod RedAlike
pub mod RedLogs
pub mod RedRunExamples
pub mod RedRuns
pub mod RedSendLemmas
