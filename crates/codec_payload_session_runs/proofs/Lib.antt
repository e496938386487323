pub mod AloneLemmas
pub mod AssociationLemmas
pub mod BeginningLemmas
pub mod CallLemmas
pub mod CountLemmas
pub mod EndingCallLemmas
pub mod EndingLemmas
pub mod FateLemmas
pub mod PollLemmas
pub mod ReachedLemmas
pub mod RunLemmas
pub mod StreamLemmas
mod TripLemmas
pub mod WaitRangeLemmas
