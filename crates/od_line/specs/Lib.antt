-- The definitions of this crate.
pub mod Data
pub mod Entries
pub mod Mentions
pub mod Names
