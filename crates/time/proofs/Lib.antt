pub mod Quotient
pub mod Apart
