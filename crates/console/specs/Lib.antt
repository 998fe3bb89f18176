pub mod Counts
pub mod Digits
pub mod Input
pub mod Output
