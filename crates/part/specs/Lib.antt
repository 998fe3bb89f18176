-- What a step answers.
pub mod Means
