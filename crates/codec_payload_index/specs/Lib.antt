pub mod Ssrcs
pub mod Times
