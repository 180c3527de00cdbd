pub mod Names
pub mod Frames
pub mod Forms
pub mod Steps
