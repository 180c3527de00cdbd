pub mod PlainRun
pub mod Shapes
