-- For the proofs of the crates above: what it means that settings fit, what padding leaves, and a one that is shifted.
pub mod Fitting
pub mod Padded
pub mod Shifts
-- The steps of this crate's own proofs.
mod Rows
