pub mod Patterns
pub mod Ring
pub mod Indices
pub mod Rules
