pub mod Steps
pub mod Chain
pub mod Grammar
pub mod Levels
