-- The lemmas of this crate.
mod LineExamples
pub mod LineFloats
pub mod LineTokens
pub mod LineWords
