-- The lemmas of this crate.
pub mod Texts
pub mod Sizes
pub mod Moves
pub mod OnlyReading
pub mod Answers
