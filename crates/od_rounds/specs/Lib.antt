-- The definitions of this crate.
pub mod Gives
pub mod Left
pub mod Looked
pub mod Planned
pub mod Ready
pub mod Resolved
pub mod Running
pub mod Weighed
