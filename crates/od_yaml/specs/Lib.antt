-- The definitions of this crate.
pub mod Below
pub mod Comments
pub mod Entry
pub mod Lines
pub mod Literals
pub mod Quotes
pub mod Readers
pub mod Scalars
pub mod Sections
