-- Bursts that serve requests are the plain memory; what an event makes of them; and closed rows.
pub mod Pins
pub mod Play
pub mod Part
pub mod Same
pub mod Closed
