pub mod Single
pub mod Complete
pub mod Sound
pub mod Closing
pub mod Reader
pub mod Rules
