pub mod Below
pub mod Modulo
pub mod Digits
pub mod Times
pub mod Little
