-- The deadlines that are kept of a part.
pub mod Deadlines
