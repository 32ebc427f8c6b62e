pub mod Leaves
pub mod Alike
