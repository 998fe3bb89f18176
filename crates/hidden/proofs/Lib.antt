-- A capture blanked: pin words, the events written one after the other, and the answer.
pub mod Pins
pub mod Filling
pub mod Outcome
