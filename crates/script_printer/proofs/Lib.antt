mod Folds
mod Places
mod Sizes
pub mod IndexSays
pub mod ScriptSays
pub mod Cuts
pub mod CanonicalText
pub mod ReadIndices
pub mod ReadScripts
pub mod ReadNames
