-- The lemmas of this crate.
pub mod Events
pub mod Hops
pub mod Outcomes
pub mod Places
pub mod Scanned
pub mod Sent
