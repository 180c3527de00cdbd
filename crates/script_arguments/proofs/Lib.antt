pub mod NameLaws
pub mod FormLaws
pub mod Folds
pub mod Sizes
