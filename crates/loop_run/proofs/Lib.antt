pub mod FollowLaws
pub mod StepLaws
pub mod IndexJoin
pub mod WordJoin
pub mod Induction
pub mod Bounds
pub mod StatementJoin
pub mod MadeLaws
pub mod MemoryLaws
pub mod ExactLaws
mod Rows
