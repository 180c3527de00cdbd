pub mod LineLaws
pub mod WholeLaws
