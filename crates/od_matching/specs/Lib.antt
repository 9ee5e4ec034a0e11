-- The definitions of this crate.
pub mod Matching
pub mod Rounds
