pub mod Arguments
pub mod Table
pub mod Rules
