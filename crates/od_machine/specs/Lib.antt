-- The definitions of this crate.
pub mod Code
pub mod Cost
pub mod Dues
pub mod Found
pub mod Inputs
pub mod Machine
pub mod Marks
pub mod Points
pub mod Search
pub mod Spans
