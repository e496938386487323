pub mod Messages
pub mod Numbering
pub mod Sent
