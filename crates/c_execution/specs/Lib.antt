pub mod Names
pub mod Executed
