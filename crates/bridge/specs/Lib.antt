-- What the deadlines are a summary of.
pub mod Summary
