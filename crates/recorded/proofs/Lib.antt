pub mod Recorded
pub mod Steps
