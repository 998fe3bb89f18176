-- When a command may be given, and what a request makes of a schedule, by what is kept of the part.
pub mod Behind
pub mod Margin
pub mod Soonest
pub mod Draft
