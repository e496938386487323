pub mod Fec
pub mod FecReading
pub mod Protecting
pub mod Rebuilding
pub mod Stores
pub mod Strings
pub mod Sums
pub mod Writing
