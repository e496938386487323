pub mod NotedTimes
pub mod Numbers
pub mod Reports
pub mod SeenTimes
pub mod Windows
