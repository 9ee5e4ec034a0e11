-- The definitions of this crate.
pub mod Asking
pub mod Fitting
pub mod Hits
pub mod Noted
pub mod Places
pub mod Rows
pub mod Runners
pub mod Steps
