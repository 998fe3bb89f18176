-- Which rule an event breaks, and what it leaves.
pub mod Steps
