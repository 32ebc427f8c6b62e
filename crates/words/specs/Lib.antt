pub mod Refusals
pub mod Commands
pub mod Operations
pub mod Faults
pub mod Inner
