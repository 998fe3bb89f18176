-- What stands at a position of a capture.
pub mod Seeing
