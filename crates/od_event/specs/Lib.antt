-- The definitions of this crate.
pub mod Arguments
pub mod Choices
pub mod Counts
pub mod Left
pub mod Sources
