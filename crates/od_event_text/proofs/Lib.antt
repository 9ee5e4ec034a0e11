pub mod Cutting
pub mod Events
pub mod Heads
pub mod Names
