pub mod Heard
pub mod Follows
pub mod Pins
pub mod Opened
pub mod Pin
