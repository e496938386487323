pub mod Arrivals
pub mod ArrivalRuns
pub mod Chunks
pub mod Feedback
pub mod Packet
pub mod Report
pub mod Remb
