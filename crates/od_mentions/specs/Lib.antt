-- The definitions of this crate.
pub mod Hashes
pub mod Indexes
pub mod Notes
pub mod Places
pub mod States
