pub mod Formed
pub mod Patterns
pub mod Tensors
pub mod Rows
