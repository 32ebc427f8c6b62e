pub mod Happened
pub mod NullClear
