pub mod order
pub mod units
pub mod in_red
