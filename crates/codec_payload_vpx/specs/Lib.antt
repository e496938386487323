pub mod BitFields
pub mod Reading
pub mod Syntax
pub mod Vp8Frames
pub mod Vp9Frames
pub mod Vp9Superframes
