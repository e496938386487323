pub mod Rare
pub mod Release
