pub mod Apart
pub mod Numbered
pub mod Tests
pub mod Replies
