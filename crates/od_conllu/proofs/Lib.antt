-- The lemmas of this crate.
pub mod Reached
pub mod Sentences
