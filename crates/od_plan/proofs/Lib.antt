-- The lemmas of this crate.
pub mod Built
pub mod Choosing
pub mod Filters
pub mod Parts
pub mod Sent
pub mod Walks
