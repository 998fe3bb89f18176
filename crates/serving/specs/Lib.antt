pub mod Sure
pub mod Means
