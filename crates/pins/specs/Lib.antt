-- What the pins of an event ask for.
pub mod Pins
