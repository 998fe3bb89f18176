pub mod Meaning
pub mod Telling
