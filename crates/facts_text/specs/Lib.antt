pub mod Form
pub mod Block
