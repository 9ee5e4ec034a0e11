-- The definitions of this crate.
pub mod Nullable
pub mod Walk
