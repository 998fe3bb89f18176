-- Laws of the month: from what the judge says of a capture to its line, sums line by line, and the cut of a stream.
pub mod Lines
pub mod Sums
pub mod Cutting
pub mod Limits
pub mod Unique
pub mod Listed
