pub mod Clock
pub mod Elapsed
