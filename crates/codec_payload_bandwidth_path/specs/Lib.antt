pub mod Departures
pub mod Paths
pub mod PathRuns
