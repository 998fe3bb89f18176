-- The demands, each short enough to read aloud.
pub mod Judging
pub mod Recording
pub mod Opening
pub mod Listing
pub mod Refusing
pub mod Scheduling
pub mod WithoutSix
pub mod EditionZero
pub mod Blanking
mod Windows
pub mod Playing
pub mod Unaccepted
pub mod Judged
pub mod Converting
pub mod Exporting
pub mod OpenRow
pub mod Months
mod Finding
mod Settled
mod Held
pub mod AsBefore
