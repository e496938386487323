pub mod Descriptors
pub mod Structures
pub mod Syntax
