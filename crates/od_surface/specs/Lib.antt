-- What the contracts of the parser's parts speak of.
pub mod Again
pub mod Answers
pub mod Reading
