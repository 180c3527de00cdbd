pub mod Arguments
pub mod Operators
pub mod Table
pub mod Rules
