pub mod Modulo
pub mod Digits
pub mod Radix
pub mod Times
pub mod Flags
pub mod Little
pub mod Number
