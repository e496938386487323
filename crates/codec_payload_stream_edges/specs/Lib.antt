pub mod Agreement
pub mod Brought
pub mod Following
pub mod OwnRuns
pub mod Runs
