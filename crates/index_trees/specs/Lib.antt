pub mod Exact
pub mod Tree
pub mod Value
