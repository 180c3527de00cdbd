mod TreeLevels
mod FlatWords
mod FlatLoops
mod FlatLengths
pub mod Whole
