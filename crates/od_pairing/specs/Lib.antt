-- The definitions of this crate.
pub mod Hop
pub mod Known
pub mod Laws
pub mod Names
pub mod Scans
pub mod Targets
