-- The steps of this crate's own proofs.
mod Resting
mod Writing
