-- The lemmas of this crate.
pub mod Fronts
pub mod Lists
pub mod Meets
pub mod Moves
pub mod Plans
pub mod Repeats
pub mod Rounds
pub mod Sent
pub mod Steps
pub mod Tables
