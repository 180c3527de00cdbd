pub mod Characters
pub mod WordLaws
pub mod Numbers
pub mod Lexed
pub mod Decimals
pub mod SourceWords
pub mod Solid
