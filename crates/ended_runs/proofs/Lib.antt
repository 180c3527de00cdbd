mod AllowedLaws
mod InputLaws
pub mod EndLaws
