pub mod Places
pub mod Stored
pub mod Loaded
pub mod Range
