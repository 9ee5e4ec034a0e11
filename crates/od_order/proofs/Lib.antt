mod Cases
pub mod Few
