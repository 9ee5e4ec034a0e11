-- The lemmas of this crate.
pub mod Ascending
pub mod Filters
pub mod Kept
pub mod Noted
pub mod Standing
