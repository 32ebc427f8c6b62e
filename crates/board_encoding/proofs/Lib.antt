pub mod Filled
pub mod Length
pub mod Back
pub mod Only
pub mod Exactly
