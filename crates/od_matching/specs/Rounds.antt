pub mod Candidates
pub mod Laws
pub mod Phases
pub mod Round
pub mod Sites
pub mod Standing
pub mod States
