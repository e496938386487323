mod ClockLemmas
mod LinkLemmas
mod RateLemmas
mod ShiftLemmas
