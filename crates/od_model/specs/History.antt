pub mod Alike
pub mod Laws
pub mod Legal
pub mod Lines
pub mod Orders
pub mod Prints
