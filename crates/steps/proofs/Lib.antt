-- What an event does, by its command pins.
pub mod Codes
pub mod Low
