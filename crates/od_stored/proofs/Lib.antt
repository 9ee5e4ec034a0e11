-- The lemmas of this crate.
pub mod Answering
pub mod Examples
pub mod FaultLaws
pub mod MentionLaws
pub mod NumberLaws
pub mod PairLaws
pub mod TextLaws
