-- The lemmas of this crate.
pub mod Among
pub mod Locality
pub mod Marked
pub mod Products
pub mod Quantifiers
pub mod Ready
pub mod Remaining
pub mod Sorted
