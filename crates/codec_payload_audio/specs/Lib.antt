pub mod AmrWb
pub mod AmrWbEntries
pub mod AmrWbPayload
pub mod AmrWbReceived
pub mod Payloads
