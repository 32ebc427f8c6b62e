pub mod Status
pub mod Answer
pub mod Channel
pub mod Board
pub mod Trace
