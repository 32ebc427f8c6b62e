pub mod Finalize
pub mod Write
pub mod Cycle
pub mod Inner
