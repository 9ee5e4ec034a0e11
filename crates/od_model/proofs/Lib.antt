-- The lemmas of this crate.
pub mod Histories
pub mod Objects
