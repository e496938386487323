pub mod Feedback
pub mod Transport
