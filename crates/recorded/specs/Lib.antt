pub mod Asked
pub mod Made
pub mod Finding
pub mod Inner
