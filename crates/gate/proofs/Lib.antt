pub mod Keeps
pub mod Parts
