-- Lemmas of this crate.
pub mod Histories
