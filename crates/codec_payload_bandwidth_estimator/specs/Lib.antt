pub mod Estimates
pub mod Runs
