pub mod Correct
pub mod Length
pub mod Need
pub mod Needed
pub mod Planned
pub mod Ranges
pub mod Shaped
pub mod Syntax
