-- The definitions of this crate.
pub mod Answers
pub mod Examples
pub mod Laws
pub mod Mentions
pub mod Numbers
pub mod PairExamples
pub mod Pairs
pub mod ReadMentions
pub mod ReadPairs
pub mod Steps
pub mod Texts
