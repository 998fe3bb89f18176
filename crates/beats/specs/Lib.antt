-- What a burst keeps and touches, as the code finds it.
pub mod Ahead
pub mod Kept
pub mod Rows
