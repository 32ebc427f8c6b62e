pub mod Latching
pub mod Status
pub mod ReadBack
pub mod Reading
pub mod Label
