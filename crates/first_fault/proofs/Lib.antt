mod Begins
mod BeginLaws
mod FormAlgebra
mod IndexBegins
mod Wider
mod Parts
mod ConditionBegins
mod Named
mod TermBegins
mod SourceBegins
pub mod WholeBegins
