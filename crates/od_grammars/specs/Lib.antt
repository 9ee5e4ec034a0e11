-- Grammars whole.
pub mod Bodies
pub mod Examples
pub mod Grammars
pub mod PatternFaults
pub mod SameExpressions
