pub mod Choice
pub mod Kinds
pub mod Parsed
