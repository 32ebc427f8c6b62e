pub mod Parts
pub mod Loads
pub mod Rules
pub mod Ticks
pub mod Time
pub mod Steps
pub mod Traces
