-- Laws that the proofs of several functions share.
pub mod Banks
pub mod Handed
pub mod Timed
pub mod Numbers
pub mod Unique
