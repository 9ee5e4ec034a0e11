-- The definitions of this crate.
pub mod Faults
pub mod Known
pub mod Telling
pub mod Uses
