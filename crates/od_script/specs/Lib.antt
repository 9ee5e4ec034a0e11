-- The definitions of this crate.
pub mod Blocks
pub mod Faults
pub mod Readers
pub mod Said
pub mod Written
pub mod WrittenCases
