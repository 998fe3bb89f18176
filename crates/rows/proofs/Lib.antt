-- What pins do to a bank is what the reading's part says; so what was counted, and what has ended, are the reading's openings.
pub mod AsStood
pub mod Opened
pub mod Tallying
pub mod Writing
