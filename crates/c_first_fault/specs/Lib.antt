pub mod Shape
pub mod First
