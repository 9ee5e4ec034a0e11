-- The definitions of this crate.
pub mod Codes
pub mod Finding
pub mod Left
