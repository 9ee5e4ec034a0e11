-- What the contracts of the parser's parts speak of.
pub mod Ends
pub mod Reading
