pub mod FieldReaders
pub mod Syntax
