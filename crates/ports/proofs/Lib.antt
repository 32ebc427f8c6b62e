pub mod Below
pub mod CommandRead
pub mod Settling
pub mod ReadingBacks
