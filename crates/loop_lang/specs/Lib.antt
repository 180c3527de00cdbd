pub mod Syntax
pub mod Reckoning
pub mod Actions
pub mod Memory
pub mod Run
pub mod Form
