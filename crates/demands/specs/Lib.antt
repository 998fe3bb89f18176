-- What the contracts of the public functions allow, when a capture and when a call is refused, the first events of a capture, what
-- each read returns, answers by other rules, with the limit of captures written out, by the reading before there were editions,
-- and by closed rows as they were.
pub mod Allowed
pub mod Captures
pub mod Reads
pub mod Refused
pub mod ByRules
pub mod Limit
pub mod OldEdition
pub mod ClosedRows
pub mod Judged
pub mod Exports
pub mod Played
