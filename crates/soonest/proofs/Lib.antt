-- What stands at each place, and what a store to it leaves.
pub mod Places
