pub mod Claims
pub mod Verdict
