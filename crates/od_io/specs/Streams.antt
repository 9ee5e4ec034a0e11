-- Where bytes come from and go to, as contracts speak of it.
pub mod Count
pub mod Memory
pub mod Reading
pub mod Writing
