-- The lemmas of this crate.
pub mod Captured
pub mod Cuts
pub mod Files
pub mod Finding
pub mod Identifiers
pub mod Lexemes
pub mod Patterns
pub mod Reading
pub mod Rounds
pub mod Scalars
pub mod Storable
