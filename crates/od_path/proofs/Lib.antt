-- The lemmas of this crate.
pub mod Sizes
pub mod Moves
pub mod Within
pub mod Answers
pub mod Groups
pub mod StepMoves
pub mod StepAnswers
pub mod Texts
