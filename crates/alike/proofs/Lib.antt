-- Captures that differ only in addresses: pin words, a step, the walk over the events, captures, a capture blanked, and bytes.
pub mod Pins
pub mod Steps
pub mod Walking
pub mod Captures
pub mod Blanked
pub mod Bytes
