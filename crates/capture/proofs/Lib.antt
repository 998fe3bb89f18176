-- For the proofs of the crates above: what calls answer and leave, what it means that a capture is accepted, what a call knows of
-- one that it opened, events in order, and captures in words.
pub mod Outcome
pub mod Accepted
pub mod Opened
pub mod Rising
pub mod Whole
-- The steps of this crate's own proofs.
mod Fitting
mod Walks
mod Opening
mod Fronted
