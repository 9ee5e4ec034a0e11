pub mod Clients
pub mod Ends
pub mod Outcome
pub mod Words
