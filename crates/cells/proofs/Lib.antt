-- Laws of the burst list: its walks over the events, and the way from a capture's bytes to them.
pub mod Clean
pub mod Alone
pub mod Modes
pub mod Pairs
pub mod Rows
pub mod Walked
pub mod Counting
pub mod Room
pub mod Stepping
pub mod Writing
pub mod Listing
pub mod Unique
