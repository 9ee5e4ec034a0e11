pub mod Answered
pub mod Examples
pub mod Names
pub mod Places
