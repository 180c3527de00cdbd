pub mod DenotedLaws
pub mod SizeLaws
pub mod WordLaws
