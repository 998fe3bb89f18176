pub mod Meaning
pub mod Calls
pub mod Holding
