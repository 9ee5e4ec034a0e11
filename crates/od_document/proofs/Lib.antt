-- The lemmas of this crate.
pub mod Edges
pub mod Existence
pub mod Faults
pub mod Numbers
pub mod Uniqueness
pub mod Size
