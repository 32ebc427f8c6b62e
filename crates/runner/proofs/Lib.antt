pub mod Turns
pub mod Loop
pub mod Whole
pub mod Lent
pub mod Apart
pub mod ReadBytes
