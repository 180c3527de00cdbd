mod Rows
pub mod CursorLaws
