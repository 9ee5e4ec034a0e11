pub mod Changes
pub mod Kept
pub mod Sessions
pub mod Steps
