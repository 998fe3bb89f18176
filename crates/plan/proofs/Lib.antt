-- The fixed schedule of document 01: where each command goes, and that its events keep every rule.
pub mod Ranged
pub mod Pins
pub mod Passing
pub mod Uncut
pub mod Near
pub mod Sending
pub mod Reached
pub mod Awake
pub mod Standing
pub mod Bursting
pub mod Placed
pub mod Leading
pub mod Ready
pub mod Captured
pub mod Drafted
pub mod Six
