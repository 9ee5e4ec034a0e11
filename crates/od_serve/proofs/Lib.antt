-- The lemmas of this crate.
pub mod ClientLemmas
pub mod Outcomes
pub mod Steps
