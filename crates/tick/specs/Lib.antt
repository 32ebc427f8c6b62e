pub mod Due
pub mod Taken
pub mod Level
pub mod Tick
pub mod Loads
pub mod Kept
pub mod Laws
pub mod One
