pub mod Conds
pub mod Patterns
