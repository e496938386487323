pub mod Exchange
pub mod RoundTrip
pub mod Xr
pub mod XrReading
pub mod XrWriting
