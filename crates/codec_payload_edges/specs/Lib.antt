pub mod Edges
pub mod OwnSenders
pub mod Pictures
pub mod Senders
