pub mod ScopeLaws
pub mod CodeLaws
pub mod Located
pub mod Gaps
pub mod ConditionCode
pub mod ChainLaws
pub mod TermCode
