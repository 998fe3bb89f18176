-- Laws of the walks of this crate, and of their outcome.
pub mod Filling
pub mod Walking
pub mod Writing
pub mod Outcome
