-- The lemmas of this crate.
pub mod Absent
pub mod AskedExamples
pub mod Built
pub mod FieldExamples
pub mod Fits
pub mod TextExamples
