pub mod Reckoned
pub mod TreeExact
pub mod TreeFits
pub mod TreeLaws
pub mod TreeValue
