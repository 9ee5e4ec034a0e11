pub mod Spelled
pub mod Reaches
pub mod Longest
pub mod Readings
