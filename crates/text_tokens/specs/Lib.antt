pub mod Kinds
pub mod Lex
pub mod Words
pub mod Numbers
pub mod Cursor
pub mod Spelled
pub mod Names
