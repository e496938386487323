pub mod Late
pub mod Named
pub mod Probes
pub mod Requests
pub mod Transports
