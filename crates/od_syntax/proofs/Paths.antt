pub mod Moves
pub mod Complete
pub mod Sound
pub mod Closing
