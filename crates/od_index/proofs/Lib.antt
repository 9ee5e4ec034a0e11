-- The lemmas of this crate.
pub mod Counts
pub mod Examples
pub mod Members
pub mod Numbered
pub mod Orders
pub mod Places
pub mod Placed
pub mod Postings
pub mod Segments
pub mod Tables
pub mod Tiles
