pub mod Rules
pub mod Expression
pub mod Printed
pub mod Printable
pub mod Levels
pub mod Statement
pub mod Flat
