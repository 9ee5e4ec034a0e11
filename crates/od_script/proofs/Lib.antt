-- The lemmas of this crate.
pub mod Blocks
pub mod Folds
pub mod Heads
pub mod Numbers
pub mod Written
mod WrittenCases
pub mod WrittenLines
pub mod WrittenStatements
pub mod WrittenWords
