-- Laws that hold of any bytes and words, for the proofs of the crates above.
pub mod Runs
pub mod Words
pub mod Search
pub mod Counting
pub mod Events
pub mod Storing
pub mod Bytes
pub mod Halves
