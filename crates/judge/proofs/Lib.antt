-- Laws of the judge's walk.
pub mod Events
pub mod Walking
pub mod Sounds
pub mod Judging
-- For the laws that its answer is settled.
pub mod Unique
