pub mod Laws
pub mod Occurs
pub mod Zeroed
