-- The lemmas of this crate.
pub mod Below
pub mod Counted
pub mod Ends
pub mod Led
pub mod Lying
pub mod Meeting
pub mod Paired
pub mod Parts
pub mod Steps
