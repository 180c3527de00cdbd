pub mod DefaultLines
pub mod Roles
pub mod Room
pub mod Shown
