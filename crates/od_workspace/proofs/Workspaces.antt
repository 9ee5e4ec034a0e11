pub mod Added
pub mod Answers
pub mod Changes
pub mod Places
pub mod Running
pub mod Steps
pub mod Tiled
pub mod Zips
