pub mod Syntax
pub mod Words
pub mod Depth
pub mod Index
pub mod Arguments
pub mod Steps
pub mod Script
