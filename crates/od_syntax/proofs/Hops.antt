pub mod Takes
pub mod Complete
pub mod Sound
pub mod Closing
pub mod Reader
pub mod Rules
pub mod Verdicts
