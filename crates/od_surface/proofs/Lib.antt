-- The lemmas of this crate.
pub mod Balanced
pub mod Counted
pub mod Machines
pub mod Moves
pub mod Named
pub mod Verdicts
pub mod Within
