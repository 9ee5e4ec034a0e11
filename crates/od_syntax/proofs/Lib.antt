-- The lemmas of this crate.
pub mod Events
pub mod Examples
pub mod Hops
pub mod OneRule
pub mod Paths
pub mod Steps
pub mod Surfaces
pub mod Verdicts
