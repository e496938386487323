pub mod Checks
pub mod Formats
pub mod Names
pub mod Sorting
pub mod TickRates
