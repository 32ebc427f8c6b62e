pub mod Answers
pub mod Printed
pub mod Lent
pub mod Inner
