pub mod Index
pub mod Script
pub mod Printable
