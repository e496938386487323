pub mod Fields
pub mod Line
pub mod Program
pub mod RedFields
