pub mod Due
pub mod Effects
pub mod Replies
pub mod Sound
