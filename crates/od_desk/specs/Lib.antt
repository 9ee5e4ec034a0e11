-- The definitions of this crate.
pub mod Desks
pub mod Further
pub mod Stops
