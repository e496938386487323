pub mod Beginning
pub mod Contents
pub mod Late
pub mod OwnFec
pub mod Runs
pub mod States
