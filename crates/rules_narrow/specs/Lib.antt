pub mod Narrow
pub mod Quotients
