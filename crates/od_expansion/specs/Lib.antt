-- The definitions of this crate.
pub mod Bounds
pub mod Faults
pub mod Occurrences
pub mod Places
pub mod Rest
pub mod States
pub mod Walks
