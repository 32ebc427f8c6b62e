pub mod BoardTick
pub mod Worked
pub mod Told
pub mod Ticked
pub mod Inner
