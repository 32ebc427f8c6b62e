pub mod Record
pub mod Modes
pub mod Models
pub mod Shared
pub mod Fresh
pub mod Queries
pub mod Kept
pub mod Blank
