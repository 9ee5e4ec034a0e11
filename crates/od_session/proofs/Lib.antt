-- The lemmas of this crate.
pub mod Accepted
pub mod After
