pub mod Conditions
pub mod Names
pub mod Verdict
pub mod Versions
