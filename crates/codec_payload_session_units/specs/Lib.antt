pub mod Example
pub mod OneRedSender
pub mod OneSender
pub mod RedExample
pub mod RedStreamLogs
pub mod StreamUnits
