pub mod TimelyRuns
pub mod TimelyRunExample
pub mod RedTimes
pub mod Overdue
pub mod LargeUnits
