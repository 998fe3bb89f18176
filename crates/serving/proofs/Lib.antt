pub mod Growing
pub mod Serves
pub mod Tries
pub mod Unique
