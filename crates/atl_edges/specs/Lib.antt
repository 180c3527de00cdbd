pub mod Adapters
pub mod Answers
pub mod Causes
pub mod Holdings
pub mod InMemory
pub mod Pieces
