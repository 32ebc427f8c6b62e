pub mod Knows
pub mod Channels
pub mod Turns
pub mod Clear
