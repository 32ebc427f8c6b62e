pub mod Port
pub mod Settle
pub mod Settled
pub mod Gates
pub mod Reads
pub mod ReadBacks
pub mod Writes
