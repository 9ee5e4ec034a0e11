-- The definitions of this crate.
pub mod Asked
pub mod Expressions
pub mod Holds
pub mod Laws
pub mod Named
pub mod Tables
pub mod Texts
