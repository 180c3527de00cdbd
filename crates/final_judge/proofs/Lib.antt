pub mod ClaimLaws
pub mod DropLaws
pub mod LooseLaws
pub mod PathLaws
pub mod StandLaws
pub mod WalkClaims
pub mod WordClaims
