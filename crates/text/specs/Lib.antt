pub mod Ascii
pub mod Number
pub mod Put
pub mod Room
