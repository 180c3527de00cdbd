pub mod EqualLaws
pub mod Folds
pub mod FormLaws
pub mod Forms
pub mod NodeFold
mod Rows
pub mod TensorLaws
