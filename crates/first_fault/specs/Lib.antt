pub mod First
pub mod Sources
