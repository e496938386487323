pub mod KeyframeRequests
pub mod NackRuns
pub mod NackSchedule
pub mod Requests
pub mod RoundTrips
