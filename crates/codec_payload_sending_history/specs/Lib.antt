pub mod HeldNumbers
pub mod Histories
pub mod Originals
pub mod Packets
pub mod Requests
