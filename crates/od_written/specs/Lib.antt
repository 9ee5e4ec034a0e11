-- Patterns written out in lexemes, with as few brackets as the grammar lets them have.
pub mod Events
pub mod Forms
pub mod Hops
pub mod Paths
pub mod Surfaces
pub mod Texts
