-- The definitions of this crate.
pub mod Cases
pub mod Laws
pub mod Lines
pub mod Names
pub mod Scripts
pub mod Statements
