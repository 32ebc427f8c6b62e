pub mod Modes
pub mod Models
pub mod Pick
pub mod Keeps
pub mod Follows
