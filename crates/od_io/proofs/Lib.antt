pub mod Compiled
pub mod StreamLemmas
pub mod Sent
