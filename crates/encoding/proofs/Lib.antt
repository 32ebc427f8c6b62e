pub mod Readable
pub mod Length
pub mod Back
pub mod Order
pub mod Spelled
pub mod Only
pub mod Inner
