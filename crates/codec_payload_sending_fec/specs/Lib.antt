pub mod Senders
pub mod Steps
pub mod StreamNumbers
pub mod Taken
