-- The definitions of this crate.
pub mod Lines
pub mod Seen
pub mod Steps
