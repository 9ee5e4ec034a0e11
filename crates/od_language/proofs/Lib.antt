-- The lemmas of this crate.
pub mod Constraints
pub mod Lexing
pub mod Machine
pub mod Narrower
pub mod Whole
pub mod WholeRuns
pub mod Written
