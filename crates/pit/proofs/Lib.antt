pub mod Answered
pub mod Leaves
pub mod Fits
