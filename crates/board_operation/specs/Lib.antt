pub mod Asked
pub mod Made
pub mod Alike
