-- The definitions of this crate.
pub mod Joined
pub mod Mentions
pub mod Spans
pub mod Weight
