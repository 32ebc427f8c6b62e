pub mod Channels
pub mod Apart
