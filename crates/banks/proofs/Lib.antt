-- Filling the records one after the other; and that there is one answer.
pub mod Filling
pub mod Unique
