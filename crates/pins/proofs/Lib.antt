-- Laws of pin words.
pub mod Pins
pub mod Commands
pub mod Carried
