-- The packing loses nothing: whatever is told fits its bits, and is got back from the number.
pub mod Fitting
pub mod Exports
pub mod Playing
pub mod Reversible
mod OpenRows
