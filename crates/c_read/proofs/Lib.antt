mod UntilLaws
mod Joining
pub mod Reading
pub mod ReadingNumbers
pub mod ReadingNames
mod GoesOn
mod ExpressionLaws
mod StatementLaws
pub mod UnitLaws
pub mod LengthLaws
mod TextLaws
pub mod WholeText
pub mod Alone
pub mod Formed
mod Rows
pub mod Numerals
