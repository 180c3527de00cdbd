pub mod ConditionLaws
pub mod EqualityLaws
pub mod PartLaws
