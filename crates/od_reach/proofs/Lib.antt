pub mod Comes
pub mod Crossed
pub mod Goes
pub mod Keeping
pub mod Rows
pub mod Sizes
pub mod Spots
pub mod Walked
