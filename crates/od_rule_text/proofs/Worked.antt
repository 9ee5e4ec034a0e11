-- Texts worked out by hand, which the check computes.
pub mod Expansion
pub mod Faults
pub mod Grammars
pub mod Priorities
pub mod RuleFiles
pub mod Scalars
