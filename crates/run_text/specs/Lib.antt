pub mod Outputs
pub mod Told
pub mod GivenRun
