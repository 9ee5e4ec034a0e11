-- The definitions of this crate.
pub mod Lent
pub mod Resolved
pub mod Waiting
