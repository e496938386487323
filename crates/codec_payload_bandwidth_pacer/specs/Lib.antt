pub mod Pacing
pub mod ResendRuns
pub mod Resending
pub mod Runs
