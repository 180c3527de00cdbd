pub mod Fills
pub mod Kept
pub mod Modules
pub mod Nodes
pub mod Places
pub mod Ready
