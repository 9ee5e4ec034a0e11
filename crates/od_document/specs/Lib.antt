-- The definitions of this crate.
pub mod Building
pub mod Columns
pub mod Edges
pub mod Faults
pub mod Laws
pub mod Lines
pub mod Reading
pub mod Size
pub mod Words
