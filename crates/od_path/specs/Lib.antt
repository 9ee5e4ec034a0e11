-- What the contracts of the parsers' parts speak of.
pub mod Machine
pub mod Steps
pub mod Texts
