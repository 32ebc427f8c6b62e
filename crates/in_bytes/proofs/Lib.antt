pub mod Standing
pub mod Three
pub mod Part
pub mod Calls
pub mod Loads
pub mod Clocks
