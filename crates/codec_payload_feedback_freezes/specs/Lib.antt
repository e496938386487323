pub mod Freezes
pub mod Rule
