pub mod Cleared
pub mod Firsts
pub mod Passing
pub mod Plain
pub mod Ports
pub mod Runs
pub mod Settings
pub mod Streams
