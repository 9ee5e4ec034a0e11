-- The lemmas of this crate.
pub mod Derivations
pub mod Misfits
pub mod Names
pub mod Pieces
pub mod Walks
pub mod Wholes
