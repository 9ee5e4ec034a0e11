pub mod Alls
pub mod Totals
pub mod Keeps
pub mod Tells
pub mod Starts
pub mod Ends
pub mod Own
