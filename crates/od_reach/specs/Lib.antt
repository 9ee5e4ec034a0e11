-- The definitions of this crate.
pub mod Code
pub mod Links
pub mod Moves
pub mod Reached
pub mod Walking
