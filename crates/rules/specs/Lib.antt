-- Rules by their numbers.
pub mod Rule
