pub mod Tests
pub mod Fields
