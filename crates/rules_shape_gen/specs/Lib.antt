pub mod Formed
pub mod Patterns
pub mod Rows
pub mod Table
