pub mod KeptScope
pub mod KeptValue
pub mod LiteralLaws
pub mod OccursLaws
pub mod ZeroLaws
