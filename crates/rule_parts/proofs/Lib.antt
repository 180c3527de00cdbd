pub mod CondLaws
pub mod DraftLaws
pub mod GoalLaws
pub mod Parts
pub mod PatternLaws
pub mod Replacing
pub mod ShapeLaws
