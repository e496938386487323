pub mod Ages
pub mod Gaps
pub mod Waits
