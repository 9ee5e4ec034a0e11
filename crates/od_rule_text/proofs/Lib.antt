-- The lemmas of this crate.
pub mod Cutting
pub mod GrammarsRead
pub mod Meanings
pub mod Outcomes
pub mod PlainTexts
pub mod Priorities
pub mod ReadsBack
pub mod Refusals
pub mod Returns
pub mod RuleFilesRead
pub mod TextFaults
pub mod Worked
