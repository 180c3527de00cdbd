pub mod AccessLaws
pub mod ApplyLaws
pub mod CaseLaws
pub mod InwardLaws
pub mod NestedLaws
pub mod OutwardLaws
pub mod ShownLaws
pub mod WordLaws
