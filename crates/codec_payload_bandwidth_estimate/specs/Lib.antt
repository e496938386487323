pub mod Arrivals
pub mod Delays
pub mod Losses
pub mod Rates
pub mod Steadiness
