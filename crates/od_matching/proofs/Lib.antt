-- The lemmas of this crate.
pub mod Matching
pub mod Rounds
