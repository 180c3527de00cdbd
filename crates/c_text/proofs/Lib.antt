pub mod Pieces
pub mod RulesSay
mod ExpressionSays
mod StatementSays
pub mod Cuts
mod ExpressionCuts
mod StatementCuts
mod UnitCuts
mod LevelsFit
mod FlatFits
pub mod WordLevels
pub mod ReadsBack
mod Doubled
