pub mod Leaves
pub mod Made
pub mod Nodes
pub mod Outputs
pub mod Words
