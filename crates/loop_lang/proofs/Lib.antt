mod Rows
pub mod Following
pub mod IndexForms
pub mod StatementForms
pub mod Statements
pub mod WordForms
