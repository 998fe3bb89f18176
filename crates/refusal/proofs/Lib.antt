-- Laws that callers use.
pub mod Unique
