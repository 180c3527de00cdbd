pub mod InputLaws
pub mod PlainLaws
pub mod ShapeLaws
pub mod TensorLists
pub mod WordLaws
