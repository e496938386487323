pub mod Ccfb
pub mod CcfbLog
pub mod CcfbReading
pub mod CcfbWriting
