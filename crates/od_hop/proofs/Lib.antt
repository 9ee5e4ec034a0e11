-- The lemmas of this crate.
pub mod Surfaces
pub mod Hosts
pub mod Joins
pub mod Cuts
pub mod Machines
pub mod Verdicts
