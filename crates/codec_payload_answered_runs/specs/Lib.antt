pub mod FilledGaps
pub mod Repeats
pub mod AskedRuns
pub mod AnsweredRuns
pub mod AnsweredRequests
pub mod ComeBackExample
