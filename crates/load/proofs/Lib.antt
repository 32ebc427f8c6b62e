pub mod Keeps
pub mod Stays
pub mod Moved
pub mod Parts
pub mod Value
