pub mod Apart
pub mod Rows
pub mod Short
