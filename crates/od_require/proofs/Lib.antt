-- The lemmas of this crate.
pub mod Built
pub mod Parts
pub mod Walks
