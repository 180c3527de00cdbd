pub mod Units
pub mod Fault
