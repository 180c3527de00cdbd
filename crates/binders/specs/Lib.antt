pub mod Answers
pub mod Bound
pub mod Counting
pub mod Kinds
pub mod Maps
pub mod PlainMaps
pub mod Scoped
pub mod Uses
