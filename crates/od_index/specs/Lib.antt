-- The definitions of this crate.
pub mod Ascending
pub mod Laws
pub mod Postings
pub mod Segments
pub mod Sentences
pub mod Sites
pub mod Tables
pub mod Terms
pub mod Views
