-- What the contracts of the lexer's and the parser's parts speak of.
pub mod Machine
pub mod Runs
pub mod Taken
