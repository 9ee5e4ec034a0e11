-- What the contracts of the parser's parts speak of.
pub mod Answers
pub mod Heads
pub mod Names
pub mod Parts
