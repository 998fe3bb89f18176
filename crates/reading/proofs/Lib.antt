-- What follows from the definitions alone: worked cases, and what a verdict, a beat and a cut mean.
pub mod Laws
pub mod Cases
pub mod Found
pub mod Meaning
pub mod Beats
pub mod Tables
pub mod Six
pub mod Cuts
pub mod Alone
pub mod Nops
pub mod Ordered
pub mod OpenRows
pub mod CleanRows
pub mod Index
