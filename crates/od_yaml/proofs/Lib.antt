-- The lemmas of this crate.
pub mod Blanks
pub mod Comments
pub mod Lines
pub mod Literals
pub mod Runs
pub mod Steps
