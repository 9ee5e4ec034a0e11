-- The lemmas of this crate.
pub mod Distinct
pub mod Sameness
pub mod Tests
