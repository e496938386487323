pub mod Ccfb
pub mod Exchanges
pub mod Inspect
pub mod Layers
pub mod PathReports
pub mod Paths
pub mod Spatial
