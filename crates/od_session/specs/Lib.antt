-- The definitions of this crate.
pub mod Grammars
pub mod Parts
