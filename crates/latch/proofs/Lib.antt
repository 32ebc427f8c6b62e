pub mod StatusByte
pub mod Words
pub mod Labels
pub mod ReadBacks
