-- Laws that callers of the step use.
pub mod Unique
-- The steps of this crate's own proofs.
mod Left
mod Pins
