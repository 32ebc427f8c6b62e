pub mod Words
pub mod Reads
pub mod Gating
pub mod Waiting
pub mod Watching
