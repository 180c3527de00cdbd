mod Shapes
mod Chains
mod Expressions
mod Statements
mod Sizes
mod Units
pub mod Whole
