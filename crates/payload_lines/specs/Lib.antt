pub mod HexField
pub mod Numbers
pub mod Ends
