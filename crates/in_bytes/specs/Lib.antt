pub mod Called
pub mod Inner
