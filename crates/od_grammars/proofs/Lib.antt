-- The lemmas of this crate.
pub mod Bodies
pub mod Examples
pub mod PatternFaults
pub mod SameExpressions
