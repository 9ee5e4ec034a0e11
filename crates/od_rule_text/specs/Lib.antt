-- The definitions of this crate.
pub mod Blanks
pub mod Expansion
pub mod Expressions
pub mod Grammars
pub mod Items
pub mod Labels
pub mod Laws
pub mod Meanings
pub mod Priorities
pub mod Returns
pub mod RuleFiles
pub mod Scalars
pub mod Statements
pub mod Texts
pub mod Written
