pub mod CalmLemmas
pub mod CheckLemmas
mod DeadlineLemmas
pub mod DoneLemmas
pub mod DueLemmas
pub mod PlaceLemmas
pub mod PopAgainLemmas
pub mod QuietLemmas
mod RenegotiationLemmas
pub mod ReportLemmas
mod RestLemmas
pub mod SkipLemmas
pub mod SsrcLemmas
mod StillLemmas
pub mod TelephoneLemmas
mod TripLemmas
pub mod UnitLemmas
pub mod WakingLemmas
