-- The definitions of this crate.
pub mod Rule
pub mod Steps
pub mod Passes
pub mod Lending
pub mod Locks
pub mod Laws
