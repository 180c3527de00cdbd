pub mod Formed
pub mod Cuts
pub mod Patterns
pub mod Table
pub mod Tilings
pub mod OneTurn
pub mod Raising
pub mod Rules
