-- Exports: stamps and records, the buffer filled, the answer, and that there is one.
pub mod Searching
pub mod Stamps
pub mod Filling
pub mod Incoming
pub mod Bridges
pub mod Outgoing
pub mod Back
pub mod Records
pub mod Within
