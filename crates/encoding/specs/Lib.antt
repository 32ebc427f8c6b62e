pub mod Codes
pub mod Stored
pub mod Loaded
pub mod Front
pub mod Range
pub mod Inner
